pub mod PartsValues
pub mod HandleValues
pub mod BundleHandleValues
