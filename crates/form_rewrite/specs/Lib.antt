pub mod Ended
pub mod Goes
pub mod Sound
pub mod Takes
pub mod Taking
pub mod Ways
