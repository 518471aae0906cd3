pub mod Carried
pub mod OneBelow
pub mod Chains
pub mod Flagging
pub mod Closing
pub mod Following
