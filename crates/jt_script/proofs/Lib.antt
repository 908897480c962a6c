pub mod WordsOfLines
