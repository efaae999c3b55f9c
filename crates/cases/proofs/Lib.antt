mod WorkedModules
