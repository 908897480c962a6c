pub mod Answer
pub mod Entry
pub mod HexInput
pub mod Line
pub mod Report
pub mod Reporting
pub mod Taking
