mod Masters
mod NoRows
