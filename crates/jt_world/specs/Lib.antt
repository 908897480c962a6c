pub mod Claim
pub mod Rehearsal
pub mod Made
pub mod Rehearsing
pub mod Making
pub mod Hearing
