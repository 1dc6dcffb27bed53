pub mod FirstFault
