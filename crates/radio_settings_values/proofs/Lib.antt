mod RepeatLemmas
mod PlaceLemmas
