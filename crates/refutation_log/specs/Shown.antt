use Rattle.refutation_log.specs.declared.entries.Entry.{Entry}
use Rattle.refutation_log.specs.declared.entries.EntryRef.{EntryRef}

-- The entry that an `EntryRef` shows.
abbrev pub shown : EntryRef → Entry
shown r = record { by = r.by; clause = r.clause.now; hints = r.hints.now }
