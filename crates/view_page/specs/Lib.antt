pub mod PageForm
