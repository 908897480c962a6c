pub mod Running
pub mod AfterError
