pub mod Buffer
pub mod Loan
pub mod Pool
