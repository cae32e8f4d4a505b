pub mod PairLemmas
pub mod Images
pub mod At
