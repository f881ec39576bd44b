mod FileLemmas
mod WordLemmas
mod SaidLemmas
