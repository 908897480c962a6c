pub mod Registration
