pub mod Numbers
pub mod Keys
pub mod Hosts
pub mod Choosing
pub mod Causes
pub mod Phones
