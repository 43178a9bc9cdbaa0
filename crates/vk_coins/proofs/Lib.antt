mod JoinEnds
pub mod BoardEnds
pub mod Made
