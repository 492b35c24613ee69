mod OwnLemmas
mod TotalLemmas
mod Words
