pub mod ThreadLemmas
mod Words
