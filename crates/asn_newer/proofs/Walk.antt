-- Where the reader of messages of newer and older senders stands, and what it cites at each exit.
pub mod Halts
pub mod Following
pub mod FieldsSkipped
pub mod AnyBitmaps
pub mod PerItems
pub mod OerItems
pub mod ItemsRead
pub mod InTypes
pub mod Sizes
pub mod ContentsRead
pub mod ElementsRead
pub mod ChoicesAndSequences
pub mod BoundedEntries
pub mod PastProfile
pub mod MessagesRead
pub mod PathsRead
