mod EntryProofs
mod Examples
mod FaultProofs
mod ItemLemmas
mod ItemProofs
mod SheetProofs
mod StackProofs
