pub mod EventFiles
