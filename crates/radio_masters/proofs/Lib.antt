mod Called
mod Popped
mod PullEntries
mod AtMostEntries
mod Words
