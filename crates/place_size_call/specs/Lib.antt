pub mod SizeCall
