pub mod WorkedModules
