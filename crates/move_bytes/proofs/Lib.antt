mod EntryBytes
mod ByteLists
