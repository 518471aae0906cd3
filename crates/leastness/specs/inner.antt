pub mod Chains
pub mod Flagging
pub mod Low
pub mod OneBelow
