mod Copies
mod GuardLemmas
mod Splits
mod TableLemmas
