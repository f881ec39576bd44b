mod SidesLemmas
mod PairLemmas
mod TableLemmas
