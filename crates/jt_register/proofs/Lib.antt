pub mod RegistrationLaws
