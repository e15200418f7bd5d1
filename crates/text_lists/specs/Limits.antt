-- The limits that a call may be given.
use Rattle.std.specs.Prelude.{◌≤◌}
use Rattle.text_lists.specs.declared.limits.Limits.{Limits}

-- the limits that the program runs with
abbrev pub standard : Limits
standard = record {
  tables = 64;
  attrs = 64;
  values = 64;
  cell_bytes = 65535;
  file_bytes = 67108864;
  all_bytes = 134217728;
  deps = 128;
  cinds = 64;
  edits = 256;
  tableau_rows = 4096;
  rows = 500000;
  index_cells = 100000000;
  last_id = 999999999999;
  commands = 1000000;
}

-- no limit is above its standard value, and there is an id for each row
pub record AreLimits (limits : Limits) : Type 0 where
  pub tables : limits.tables ≤ 64
  pub attrs : limits.attrs ≤ 64
  pub values : limits.values ≤ 64
  pub cell_bytes : limits.cell_bytes ≤ 65535
  pub file_bytes : limits.file_bytes ≤ 67108864
  pub all_bytes : limits.all_bytes ≤ 134217728
  pub deps : limits.deps ≤ 128
  pub cinds : limits.cinds ≤ 64
  pub edits : limits.edits ≤ 256
  pub tableau_rows : limits.tableau_rows ≤ 4096
  pub rows : limits.rows ≤ 500000
  pub index_cells : limits.index_cells ≤ 100000000
  pub last_id : limits.last_id ≤ 999999999999
  pub commands : limits.commands ≤ 1000000
  pub id_for_each_row : limits.rows ≤ limits.last_id
