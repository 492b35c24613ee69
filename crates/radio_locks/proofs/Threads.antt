-- Several threads may call a hall.
use denote.RattleType.{RattleType}
use denote.Param.Send.{IsSend, IsSync, AllSend, AllSync, recorded_send, recorded_sync, struct_send, struct_sync, sendable, view_sync}
use denote.Struct.Declared.{Declared, fields, shape, row}
use denote.Struct.Struct.{Struct}
use Rattle.std.proofs.Crossing.{crosses, Vec-send, Vec-sync}
use Rattle.std.proofs.sync.Mutex.TheSendSync as mutex
use Rattle.std.specs.declared.sync.ledger.Ledger as ledger
use Rattle.std.specs.contracts.option.Option as option_of
use Rattle.std.specs.contracts.sync.Mutex as mutex_of
use Rattle.std.specs.contracts.vec.Vec as vec_of
use Rattle.std.specs.contracts.alloc.Global as global
use Rattle.std.specs.contracts.impls.GlobalAllocator.TheImpl as allocator
use Rattle.boxcar.specs.contracts.vec.Anything as anything
use Rattle.boxcar.specs.contracts.vec.AnythingKeeps.TheImpl as anything_keeps
use Rattle.boxcar.specs.contracts.slot.OnceSlot as slot_of
use Rattle.boxcar.specs.contracts.table.Entry as entry_of
use Rattle.boxcar.specs.contracts.table.EntrySlotRule.TheImpl as entry_rule
use Rattle.boxcar.specs.contracts.table.Row as a_row
use Rattle.boxcar.specs.contracts.table.Table as table_of
use Rattle.boxcar.specs.contracts.vec.Vec as row_of
use Rattle.boxcar.proofs.slot.OnceSlot.TheSendSync as slot
use Rattle.boxcar.proofs.tag.Tag.TheSendSync as tag
use Rattle.radio_access.proofs.lists.Lists.TheSendSync as lists
use Rattle.radio_book.proofs.Threads.{book_send, mount_book_send}
use Rattle.radio_book.specs.contracts.mount_book.MountBook as mount_book
use Rattle.radio_chronicle.specs.declared.chronicle.Chronicle as chronicle
use Rattle.radio_chronicle.specs.declared.origin.Origin as origin
use Rattle.radio_locks.proofs.mount_lists.MountLists.TheSendSync as mount_lists
use Rattle.radio_locks.specs.contracts.hall.Hall as hall
use Rattle.radio_locks.specs.contracts.locked_control.LockedControl as locked_control
use Rattle.radio_locks.specs.contracts.opening.Opening as opening
use Rattle.radio_settings_values.proofs.settings.Settings.TheSendSync as settings

-- threads may share a struct, if they may share each of its fields
declared_sync : (T : Declared) → AllSync (fields T) → IsSync (row T)
declared_sync T syncs = recorded_sync (Struct (shape T)) T.D T.to T.to_one (struct_sync (shape T) syncs)

-- what a lock guards may go to another thread, if each of its fields may
declared_send : (T : Declared) → AllSend (fields T) → IsSend (row T)
declared_send T sends = recorded_send (Struct (shape T)) T.D T.to T.to_one (struct_send (shape T) sends)

module _ (C H : RattleType) (c : chronicle.Ghosts C.Denot) (h : origin.Ghosts H.Denot) (l : ledger.Ghosts H.Denot) where
  opening_send : IsSend C → IsSend H → IsSend (opening.the_field C H c h l).row
  opening_send sc sh = search (sendable, crosses, settings.the_send, lists.the_send) depth 12

  locked_control_send : IsSend C → IsSend H → IsSend (locked_control.the_row C H c h l)
  locked_control_send sc sh =
      declared_send (locked_control.the_type C H c h l)
      (book_send C H c h l sc sh, (search (sendable, crosses, mount_book_send) depth 20, (mount_lists.the_send, (search sendable depth 8, (opening_send sc sh, tt)))))

  mount_lock_send : IsSend C → IsSend (mutex_of.the_row (option_of.the_row (mount_book.the_row C c)))
  mount_lock_send sc = search (sendable, mutex.the_send, mount_book_send) depth 12

  mount_lock_sync : IsSend C → IsSync (mutex_of.the_row (option_of.the_row (mount_book.the_row C c)))
  mount_lock_sync sc = search (sendable, mutex.the_sync, mount_book_send) depth 12

  table_sync : IsSend C → IsSync (table_of.the_row (mutex_of.the_row (option_of.the_row (mount_book.the_row C c))) anything.the_row global.the_row
      (anything_keeps.ghosts (mutex_of.the_row (option_of.the_row (mount_book.the_row C c)))) allocator.ghosts)
  table_sync sc =
      let lock = mutex_of.the_row (option_of.the_row (mount_book.the_row C c)) in
      let keeps = anything_keeps.ghosts lock in
      let rule = entry_rule.ghosts lock anything.the_row keeps (anything_keeps.dict lock) in
      let inner = slot_of.the_row lock (entry_of.the_row anything.the_row) rule in
      let rows = vec_of.the_row inner global.the_row allocator.ghosts in
      let inner_send = Vec-send inner (slot.the_send lock (entry_of.the_row anything.the_row) rule (mount_lock_send sc)) in
      let inner_sync = Vec-sync inner (slot.the_sync lock (entry_of.the_row anything.the_row) rule (mount_lock_send sc) (mount_lock_sync sc)) in
      view_sync _ _ _ _ _
      (declared_sync (table_of.TheInside.the_type lock anything.the_row global.the_row keeps allocator.ghosts)
      (Vec-sync (slot_of.the_row rows a_row.the_row _) (slot.the_sync rows a_row.the_row _ inner_send inner_sync), (search (sendable, crosses) depth 12, (tag.the_sync, tt))))

  row_sync : IsSend C → IsSync (row_of.the_row (mutex_of.the_row (option_of.the_row (mount_book.the_row C c))) global.the_row anything.the_row allocator.ghosts
      (anything_keeps.ghosts (mutex_of.the_row (option_of.the_row (mount_book.the_row C c)))))
  row_sync sc =
      let lock = mutex_of.the_row (option_of.the_row (mount_book.the_row C c)) in
      view_sync _ _ _ _ _
      (declared_sync (row_of.TheInside.the_type lock global.the_row anything.the_row allocator.ghosts (anything_keeps.ghosts lock))
      (search (sendable, crosses) depth 12, (table_sync sc, (search (sendable, crosses) depth 12, tt))))

  pub hall_sync : IsSend C → IsSend H → IsSync (hall.the_row C H c h l)
  hall_sync sc sh =
      declared_sync (hall.the_type C H c h l)
      (search sendable depth 8, (search sendable depth 8, (mutex.the_sync _ (locked_control_send sc sh), (row_sync sc, tt))))
