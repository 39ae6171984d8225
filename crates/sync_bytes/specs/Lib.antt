-- where Sync stands
pub mod SyncAt
