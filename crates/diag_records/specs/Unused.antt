-- What an unused record of the log is.
pub use Rattle.diag.specs.Log.{unused}
