pub mod OptionWords
pub mod PhoneDigits
pub mod Platform
