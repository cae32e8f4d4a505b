-- What the last syncs left of the devices in memory.
use Rattle.std.specs.Prelude.{reverse}
use Rattle.disk_model.specs.declared.mem_devices.MemDevices.{MemDevices}
use Rattle.disk_model.specs.Images.{Image}
use Rattle.disk_model.specs.Files.{image_of}
use Rattle.disk_model.specs.Past.{kept_after}

-- of each file what its last sync or removal left, and of the others what was there at first
abbrev pub synced_of : MemDevices → Image
synced_of devices =
    kept_after (image_of devices.journal.first.items) (reverse devices.journal.past.items)
