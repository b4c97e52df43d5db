pub mod Fronts
pub mod OneWay
pub mod RoundTrip
