pub mod Orders
pub mod Reading
pub mod Rules
pub mod Books
pub mod Memory
