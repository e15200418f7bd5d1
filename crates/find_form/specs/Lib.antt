pub mod FindForm
