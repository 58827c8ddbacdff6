-- The marks of an indexed sheet are the names by which a plan tells its items (own).
use Rattle.std.specs.Prelude.{◌≡◌, ◌≤◌, List, length}
use Rattle.pending_laws.specs.ItemIds.{AreItemIds}
use Rattle.pending_laws.specs.Candidates.{Candidate, PendingState}
use Rattle.pending_laws.specs.Priorities.{AreOrderKeys}
use Rattle.queue_laws.specs.Reindexed.{AreRenamed}
use Rattle.order_laws.specs.Edits.{Edit, edited}
use Rattle.indexed_sheet.specs.IndexedParts.{IndexedParts}
use Rattle.indexed_sheet.specs.MarkList.{AreMarks, item_ids_of, order_keys_of}
use Rattle.indexed_sheet.specs.Marking.{AreKept}
use Rattle.plan_laws.specs.Barrier.Hindering.{Watched}

-- what a plan holds with this indexed sheet
abbrev pub pending_of : IndexedParts → List Candidate → List Watched → PendingState
pending_of b candidates watched = record { order_keys = order_keys_of b.marks; item_ids = item_ids_of b.marks; next = b.next; candidates = candidates; watched = watched }

-- an indexed sheet has marks, one for each item
abbrev pub IsMarked : IndexedParts → Type 0
IsMarked b = AreMarks b.marks b.next × (length b.marks ≡ length b.items)

-- The item ids and the order keys of its marks are such of its items.
abbrev pub MarksAreNames : Type 0
MarksAreNames = (b : IndexedParts) → IsMarked b → AreItemIds b.items (item_ids_of b.marks) b.next × AreOrderKeys b.items (order_keys_of b.marks)

-- Where an indexed sheet keeps the marks of the items that an edit leaves, the items are renamed.
abbrev pub KeptAreRenamed : Type 0
KeptAreRenamed = (old new : IndexedParts) (e : Edit) → IsMarked old → IsMarked new → AreKept old new e → new.items ≡ edited e old.items → old.next ≤ new.next →
    (candidates candidates' : List Candidate) (watched watched' : List Watched) → AreRenamed old.items e (pending_of old candidates watched) (pending_of new candidates' watched')
