pub mod SchemaForm
