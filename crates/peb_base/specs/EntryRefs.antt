-- Lent entries as entries.
use Rattle.peb_base.specs.declared.change.Change.{Change}
use Rattle.peb_base.specs.declared.change.Change.TheVariants.{Put, Delete}
use Rattle.peb_base.specs.declared.entry.Entry.{Entry}
use Rattle.peb_base.specs.declared.change_ref.ChangeRef.{ChangeRef}
use Rattle.peb_base.specs.declared.change_ref.ChangeRef.TheVariants as refs
use Rattle.peb_base.specs.declared.entry_ref.EntryRef.{EntryRef}

-- the change that is lent
abbrev pub change_of : ChangeRef → Change
change_of (refs.Put value) = Put value.now
change_of refs.Delete = Delete

-- the entry that is lent
abbrev pub entry_of : EntryRef → Entry
entry_of e = record { key = e.key.now; number = e.number; change = change_of e.change }
