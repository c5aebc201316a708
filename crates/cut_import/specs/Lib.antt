pub mod Imported
pub mod Importers
pub mod Statuses
