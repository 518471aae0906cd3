pub mod CarriesLeast
pub mod inner
