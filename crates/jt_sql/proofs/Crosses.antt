-- That the stores in files may go to other threads, a lemma for each type that the check's own search does not take with what it holds.
use denote.RattleType.{RattleType}
use denote.Param.Send.{IsSend, sendable}
use Rattle.std.proofs.Crossing.{crosses}
use Rattle.std.specs.contracts.option.Option
use Rattle.std.specs.contracts.rt.LibcRuntime
use Rattle.sqlite.below.sqlite_items.specs.contracts.items.Items
use Rattle.sqlite.below.sqlite_disk.specs.declared.Disk as disk
use Rattle.sqlite.below.sqlite_trees.specs.declared.store.Store as store
use Rattle.sqlite.below.sqlite_value.specs.contracts.value.Bytes
use Rattle.sqlite.below.sqlite_value.specs.contracts.value.Value
use Rattle.sqlite.below.sqlite_value.specs.contracts.row.Row
use Rattle.sqlite.below.sqlite_schema.specs.contracts.code.Op
use Rattle.sqlite.below.sqlite_schema.specs.contracts.code.Terms
use Rattle.sqlite.below.sqlite_schema.specs.contracts.schema.Column
use Rattle.sqlite.below.sqlite_schema.specs.contracts.schema.Reference
use Rattle.sqlite.below.sqlite_schema.specs.contracts.schema.Stamps
use Rattle.sqlite.below.sqlite_schema.specs.contracts.schema.Table
use Rattle.sqlite.below.sqlite_schema.specs.contracts.schema.Index
use Rattle.sqlite.below.sqlite_schema.specs.contracts.schema.View
use Rattle.sqlite.below.sqlite_schema.specs.contracts.schema.Schema
use Rattle.sqlite.below.sqlite_schema.specs.contracts.plan.Scan
use Rattle.sqlite.below.sqlite_schema.specs.contracts.plan.Stage
use Rattle.sqlite.below.sqlite_schema.specs.contracts.plan.Groups
use Rattle.sqlite.below.sqlite_schema.specs.contracts.plan.Plan
use Rattle.sqlite.below.sqlite_schema.specs.contracts.program.Table as Computed
use Rattle.sqlite.below.sqlite_schema.specs.contracts.program.Program
use Rattle.sqlite.below.sqlite_schema.specs.contracts.command.Source
use Rattle.sqlite.below.sqlite_schema.specs.contracts.command.Upsert
use Rattle.sqlite.below.sqlite_schema.specs.contracts.command.Returning
use Rattle.sqlite.below.sqlite_schema.specs.contracts.command.Command
use Rattle.sqlite.below.sqlite_resolve.specs.contracts.compiled.Compiled
use Rattle.sqlite.specs.contracts.cache.Entry
use Rattle.sqlite.specs.contracts.history.History
use Rattle.sqlite.specs.contracts.clock.WallClock
use Rattle.sqlite.specs.contracts.run.reading.Reading
use Rattle.sqlite.below.sqlite_exec.specs.contracts.work.Workspace
use Rattle.sqlite.below.sqlite_btree.specs.contracts.scratch.Scratch
use Rattle.sqlite.below.sqlite_store.specs.contracts.catalog.Wanted
use Rattle.sqlite.below.sqlite_store.specs.contracts.cursor.Cursor
use Rattle.sqlite.below.sqlite_store.specs.contracts.saved.Saved
use Rattle.sqlite.below.sqlite_wal.specs.contracts.log.Log
use Rattle.sqlite.below.sqlite_pager.specs.contracts.pager.Pager
use Rattle.sqlite.below.sqlite_pool.specs.contracts.backing.Backing
use Rattle.sqlite.below.sqlite_pool.specs.contracts.pool.Pool
use Rattle.sqlite.specs.contracts.FileStore
use Rattle.sqlite.specs.contracts.connection.Connection
use Rattle.sqlite.below.sqlite_disk.specs.contracts.modelled.Modelled
use Rattle.sqlite.below.sqlite_disk.specs.contracts.modelled.ModelledDisk.TheImpl as modelled
use Rattle.sqlite.below.sqlite_disk.specs.contracts.start.UnknownStart.TheImpl as start
use Rattle.sqlite.below.sqlite_std_file.specs.contracts.host.Host
use Rattle.sqlite.below.sqlite_std_file.specs.contracts.host.HostCalls.TheImpl as calls
use Rattle.sqlite.below.sqlite_store.specs.contracts.store.FileStoreStore.TheImpl as file_store
use Rattle.sqlite.specs.contracts.Unknown
use Rattle.std.specs.contracts.alloc.Global
use Rattle.std.specs.contracts.impls.GlobalAllocator.TheImpl as global
use Rattle.std.specs.contracts.string.String as Text
use Rattle.jt_sql.specs.contracts.adopted_keeper.AdoptedKeeper
use Rattle.jt_sql.specs.contracts.opens.InFile

option_send : (R : RattleType) → IsSend R → IsSend (Option.the_row R)
option_send R s = search (sendable, crosses) depth 20

items_send : (R : RattleType) → IsSend R → IsSend (Items.the_row R)
items_send R s = search (sendable, crosses) depth 20

bytes_send : IsSend Bytes.the_row
bytes_send = search (sendable, crosses) depth 60 fits 100000

value_send : IsSend Value.the_row
value_send =
    let bytes = bytes_send in
    let bytess = items_send Bytes.the_row bytes_send in
    let some_bytes = option_send Bytes.the_row bytes_send in
    search (sendable, crosses) depth 60 fits 100000

row_send : IsSend Row.the_row
row_send = search (sendable, crosses) depth 60 fits 100000

op_send : IsSend Op.the_row
op_send =
    let value = value_send in
    let values = items_send Value.the_row value_send in
    search (sendable, crosses) depth 60 fits 100000

terms_send : IsSend Terms.the_row
terms_send =
    let op = op_send in
    let ops = items_send Op.the_row op_send in
    search (sendable, crosses) depth 60 fits 100000

column_send : IsSend Column.the_row
column_send =
    let bytes = bytes_send in
    let bytess = items_send Bytes.the_row bytes_send in
    let some_bytes = option_send Bytes.the_row bytes_send in
    let value = value_send in
    let values = items_send Value.the_row value_send in
    search (sendable, crosses) depth 60 fits 100000

reference_send : IsSend Reference.the_row
reference_send =
    let bytes = bytes_send in
    let bytess = items_send Bytes.the_row bytes_send in
    let some_bytes = option_send Bytes.the_row bytes_send in
    search (sendable, crosses) depth 60 fits 100000

stamps_send : IsSend Stamps.the_row
stamps_send =
    let bytes = bytes_send in
    let bytess = items_send Bytes.the_row bytes_send in
    let some_bytes = option_send Bytes.the_row bytes_send in
    let terms = terms_send in
    search (sendable, crosses) depth 60 fits 100000

table_send : IsSend Table.the_row
table_send =
    let bytes = bytes_send in
    let bytess = items_send Bytes.the_row bytes_send in
    let some_bytes = option_send Bytes.the_row bytes_send in
    let column = column_send in
    let columns = items_send Column.the_row column_send in
    let terms = terms_send in
    let reference = reference_send in
    let references = items_send Reference.the_row reference_send in
    let stamps = stamps_send in
    search (sendable, crosses) depth 60 fits 100000

index_send : IsSend Index.the_row
index_send =
    let bytes = bytes_send in
    let bytess = items_send Bytes.the_row bytes_send in
    let some_bytes = option_send Bytes.the_row bytes_send in
    search (sendable, crosses) depth 60 fits 100000

view_send : IsSend View.the_row
view_send =
    let bytes = bytes_send in
    let bytess = items_send Bytes.the_row bytes_send in
    let some_bytes = option_send Bytes.the_row bytes_send in
    search (sendable, crosses) depth 60 fits 100000

schema_within : IsSend Schema.the_field.row
schema_within =
    let table = table_send in
    let tables = items_send Table.the_row table_send in
    let index = index_send in
    let indexs = items_send Index.the_row index_send in
    let view = view_send in
    let views = items_send View.the_row view_send in
    search (sendable, crosses) depth 60 fits 100000

schema_send : IsSend Schema.the_row
schema_send =
    let table = table_send in
    let tables = items_send Table.the_row table_send in
    let index = index_send in
    let indexs = items_send Index.the_row index_send in
    let view = view_send in
    let views = items_send View.the_row view_send in
    search (sendable, crosses) depth 60 fits 100000

scan_send : IsSend Scan.the_row
scan_send = search (sendable, crosses) depth 60 fits 100000

stage_send : IsSend Stage.the_row
stage_send =
    let scan = scan_send in
    search (sendable, crosses) depth 60 fits 100000

groups_send : IsSend Groups.the_row
groups_send = search (sendable, crosses) depth 60 fits 100000

plan_send : IsSend Plan.the_row
plan_send =
    let op = op_send in
    let ops = items_send Op.the_row op_send in
    let stage = stage_send in
    let stages = items_send Stage.the_row stage_send in
    let groups = groups_send in
    let some_groups = option_send Groups.the_row groups_send in
    search (sendable, crosses) depth 60 fits 100000

computed_send : IsSend Computed.the_row
computed_send =
    let plan = plan_send in
    search (sendable, crosses) depth 60 fits 100000

program_within : IsSend Program.the_field.row
program_within =
    let computed = computed_send in
    let computeds = items_send Computed.the_row computed_send in
    let plan = plan_send in
    search (sendable, crosses) depth 60 fits 100000

program_send : IsSend Program.the_row
program_send =
    let computed = computed_send in
    let computeds = items_send Computed.the_row computed_send in
    let plan = plan_send in
    search (sendable, crosses) depth 60 fits 100000

source_within : IsSend Source.the_field.row
source_within =
    let terms = terms_send in
    let program = program_send in
    let program_in = program_within in
    let some_program = option_send Program.the_row program_send in
    search (sendable, crosses) depth 60 fits 100000

source_send : IsSend Source.the_row
source_send =
    let terms = terms_send in
    let program = program_send in
    let program_in = program_within in
    let some_program = option_send Program.the_row program_send in
    search (sendable, crosses) depth 60 fits 100000

upsert_within : IsSend Upsert.the_field.row
upsert_within =
    let program = program_send in
    let program_in = program_within in
    let some_program = option_send Program.the_row program_send in
    search (sendable, crosses) depth 60 fits 100000

upsert_send : IsSend Upsert.the_row
upsert_send =
    let program = program_send in
    let program_in = program_within in
    let some_program = option_send Program.the_row program_send in
    search (sendable, crosses) depth 60 fits 100000

returning_within : IsSend Returning.the_field.row
returning_within =
    let bytes = bytes_send in
    let bytess = items_send Bytes.the_row bytes_send in
    let some_bytes = option_send Bytes.the_row bytes_send in
    let source = source_send in
    let source_in = source_within in
    search (sendable, crosses) depth 60 fits 100000

returning_send : IsSend Returning.the_row
returning_send =
    let bytes = bytes_send in
    let bytess = items_send Bytes.the_row bytes_send in
    let some_bytes = option_send Bytes.the_row bytes_send in
    let source = source_send in
    let source_in = source_within in
    search (sendable, crosses) depth 60 fits 100000

command_within : IsSend Command.the_field.row
command_within =
    let bytes = bytes_send in
    let bytess = items_send Bytes.the_row bytes_send in
    let some_bytes = option_send Bytes.the_row bytes_send in
    let value = value_send in
    let values = items_send Value.the_row value_send in
    let program = program_send in
    let program_in = program_within in
    let some_program = option_send Program.the_row program_send in
    let source = source_send in
    let source_in = source_within in
    let upsert = upsert_send in
    let upsert_in = upsert_within in
    let upserts = items_send Upsert.the_row upsert_send in
    search (sendable, crosses) depth 60 fits 100000

command_send : IsSend Command.the_row
command_send =
    let bytes = bytes_send in
    let bytess = items_send Bytes.the_row bytes_send in
    let some_bytes = option_send Bytes.the_row bytes_send in
    let value = value_send in
    let values = items_send Value.the_row value_send in
    let program = program_send in
    let program_in = program_within in
    let some_program = option_send Program.the_row program_send in
    let source = source_send in
    let source_in = source_within in
    let upsert = upsert_send in
    let upsert_in = upsert_within in
    let upserts = items_send Upsert.the_row upsert_send in
    search (sendable, crosses) depth 60 fits 100000

compiled_within : IsSend Compiled.the_field.row
compiled_within =
    let bytes = bytes_send in
    let bytess = items_send Bytes.the_row bytes_send in
    let some_bytes = option_send Bytes.the_row bytes_send in
    let command = command_send in
    let command_in = command_within in
    let returning = returning_send in
    let returning_in = returning_within in
    let some_returning = option_send Returning.the_row returning_send in
    search (sendable, crosses) depth 60 fits 100000

compiled_send : IsSend Compiled.the_row
compiled_send =
    let bytes = bytes_send in
    let bytess = items_send Bytes.the_row bytes_send in
    let some_bytes = option_send Bytes.the_row bytes_send in
    let command = command_send in
    let command_in = command_within in
    let returning = returning_send in
    let returning_in = returning_within in
    let some_returning = option_send Returning.the_row returning_send in
    search (sendable, crosses) depth 60 fits 100000

entry_within : IsSend Entry.the_field.row
entry_within =
    let bytes = bytes_send in
    let bytess = items_send Bytes.the_row bytes_send in
    let some_bytes = option_send Bytes.the_row bytes_send in
    let compiled = compiled_send in
    let compiled_in = compiled_within in
    search (sendable, crosses) depth 60 fits 100000

entry_send : IsSend Entry.the_row
entry_send =
    let bytes = bytes_send in
    let bytess = items_send Bytes.the_row bytes_send in
    let some_bytes = option_send Bytes.the_row bytes_send in
    let compiled = compiled_send in
    let compiled_in = compiled_within in
    search (sendable, crosses) depth 60 fits 100000

history_within : IsSend History.the_field.row
history_within =
    let schema = schema_send in
    let schema_in = schema_within in
    search (sendable, crosses) depth 60 fits 100000

history_send : IsSend History.the_row
history_send =
    let schema = schema_send in
    let schema_in = schema_within in
    search (sendable, crosses) depth 60 fits 100000

clock_send : IsSend WallClock.the_row
clock_send = search (sendable, crosses) depth 60 fits 100000

reading_within : IsSend Reading.the_field.row
reading_within = search (sendable, crosses) depth 60 fits 100000

reading_send : IsSend Reading.the_row
reading_send = search (sendable, crosses) depth 60 fits 100000

work_within : IsSend Workspace.the_field.row
work_within = search (sendable, crosses) depth 60 fits 100000

work_send : IsSend Workspace.the_row
work_send = search (sendable, crosses) depth 60 fits 100000

scratch_within : IsSend Scratch.the_field.row
scratch_within = search (sendable, crosses) depth 60 fits 100000

scratch_send : IsSend Scratch.the_row
scratch_send = search (sendable, crosses) depth 60 fits 100000

wanted_send : IsSend Wanted.the_row
wanted_send = search (sendable, crosses) depth 60 fits 100000

cursor_send : IsSend Cursor.the_row
cursor_send = search (sendable, crosses) depth 60 fits 100000

saved_within : IsSend Saved.the_field.row
saved_within =
    let wanted = wanted_send in
    search (sendable, crosses) depth 60 fits 100000

saved_send : IsSend Saved.the_row
saved_send =
    let wanted = wanted_send in
    search (sendable, crosses) depth 60 fits 100000

module _ (D : RattleType) (g : disk.Ghosts D.Denot) (s : IsSend D) where
  log_send : IsSend (Log.the_row D g)
  log_send = search (sendable, crosses) depth 60 fits 100000

  pager_send : IsSend (Pager.the_row D g)
  pager_send =
      let log = log_send in
      search (sendable, crosses) depth 60 fits 100000

  backing_send : IsSend (Backing.the_row D g)
  backing_send =
      let pager = pager_send in
      search (sendable, crosses) depth 60 fits 100000

  pool_send : IsSend (Pool.the_row D g)
  pool_send =
      let backing = backing_send in
      search (sendable, crosses) depth 60 fits 100000

  file_store_send : IsSend (FileStore.the_row D g)
  file_store_send =
      let pool = pool_send in
      let scratch = scratch_send in
      let scratch_in = scratch_within in
      let wanted = wanted_send in
      let cursor = cursor_send in
      let saved = saved_send in
      let saved_in = saved_within in
      let some_saved = option_send Saved.the_row saved_send in
      search (sendable, crosses) depth 60 fits 100000

connection_send : (S : RattleType) (g : store.Ghosts S.Denot) → IsSend S → IsSend (Connection.the_row S g)
connection_send S g s =
    let schema = schema_send in
    let schema_in = schema_within in
    let history = history_send in
    let history_in = history_within in
    let entry = entry_send in
    let entry_in = entry_within in
    let clock = clock_send in
    let some_clock = option_send WallClock.the_row clock_send in
    let reading = reading_send in
    let reading_in = reading_within in
    let work = work_send in
    let work_in = work_within in
    let row = row_send in
    search (sendable, crosses) depth 60 fits 100000

-- the file of a keeper and of a vault, and what stands over it
abbrev file : RattleType
file = Modelled.the_row Host.the_row Unknown.the_row calls.ghosts start.ghosts

file_is_sent : IsSend file
file_is_sent = search (sendable, crosses) depth 40 fits 100000

abbrev its_disk : disk.Ghosts file.Denot
its_disk = modelled.ghosts Host.the_row Unknown.the_row calls.ghosts modelled.no_dict start.ghosts modelled.no_dict modelled.no_dict

abbrev its_store : store.Ghosts (FileStore.the_row file its_disk).Denot
its_store = file_store.ghosts file its_disk file_store.no_dict

option_within : (R : RattleType) → IsSend R → IsSend (Option.the_field R).row
option_within R s = search (sendable, crosses) depth 20

its_connection : IsSend (Connection.the_row (FileStore.the_row file its_disk) its_store)
its_connection = connection_send (FileStore.the_row file its_disk) its_store (file_store_send file its_disk file_is_sent)

runtime_send : IsSend LibcRuntime.the_row
runtime_send = search (sendable, crosses) depth 40 fits 100000

text_send : IsSend (Text.the_field Global.the_row global.ghosts).row
text_send = search (sendable, crosses) depth 40 fits 100000

in_file_send : IsSend (InFile.the_row LibcRuntime.the_row)
in_file_send =
    let runtime = runtime_send in
    let text = text_send in
    let connection = option_within (Connection.the_row (FileStore.the_row file its_disk) its_store) its_connection in
    search (sendable, crosses) depth 40 fits 100000

pub keeper_send : IsSend (AdoptedKeeper.the_row (InFile.the_row LibcRuntime.the_row))
keeper_send =
    let file = in_file_send in
    search (sendable, crosses) depth 40 fits 100000
