-- In the order in which one reads them aloud.
pub mod Json
pub mod Lines
pub mod Explainer
pub mod Laws
