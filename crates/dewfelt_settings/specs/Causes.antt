-- Which refusals are of words, and which of a file: this project's own. To be believed.
use Rattle.std.specs.Prelude.{Bool, true, false}
use Rattle.dewfelt_settings.specs.declared.wrong.Cause.{Cause}
use Rattle.dewfelt_settings.specs.declared.wrong.Cause.TheVariants.{NoCommand, Command, NoFolder, SecondFolder, Option, NoValue, Twice, FlagTwice, OptionValue, NotOption, WordMore, WordLess, Phone, Key, KeyValue, NotToml, Memory}

-- a refusal of words
abbrev pub is_of_words : Cause → Bool
is_of_words NoCommand = true
is_of_words Command = true
is_of_words NoFolder = true
is_of_words SecondFolder = true
is_of_words Option = true
is_of_words (NoValue key) = true
is_of_words (Twice key) = true
is_of_words FlagTwice = true
is_of_words (OptionValue key) = true
is_of_words (NotOption form) = true
is_of_words (WordMore form) = true
is_of_words (WordLess form) = true
is_of_words Phone = true
is_of_words Key = false
is_of_words (KeyValue key) = false
is_of_words (NotToml line) = false
is_of_words Memory = true

-- a refusal of a file
abbrev pub is_of_file : Cause → Bool
is_of_file NoCommand = false
is_of_file Command = false
is_of_file NoFolder = false
is_of_file SecondFolder = false
is_of_file Option = false
is_of_file (NoValue key) = false
is_of_file (Twice key) = false
is_of_file FlagTwice = false
is_of_file (OptionValue key) = false
is_of_file (NotOption form) = false
is_of_file (WordMore form) = false
is_of_file (WordLess form) = false
is_of_file Phone = false
is_of_file Key = true
is_of_file (KeyValue key) = true
is_of_file (NotToml line) = true
is_of_file Memory = true
