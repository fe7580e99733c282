pub mod Parted
pub mod DraftWays
pub mod PowerWays
pub mod RuleWays
pub mod Joined
