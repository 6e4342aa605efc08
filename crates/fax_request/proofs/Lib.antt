mod FileLemmas
mod NumberLemmas
mod SaidLemmas
