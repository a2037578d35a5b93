mod Added
mod Decimal
mod Made
mod Taken
