-- What the code's tables show: a key and a row as those of Table.antt, and the row by which a directive's call is made. Assumes nothing.
use Rattle.std.specs.Prelude.{map}
use Rattle.script.specs.Table.{Key, Row, create_region_row, create_partition_row, ident_region_row, ident_partition_row, delete_region_row, delete_partition_row, information_row, get_buffer_row, get_segment_row, return_segment_row, segment_size_row, return_buffer_row, resize_segment_row, tick_row}
use Rattle.script.specs.declared.table.Key.{Key as CodeKey}
use Rattle.script.specs.declared.table.Row.{Row as CodeRow}
use Rattle.script.specs.declared.table.Directive.{Directive}
use Rattle.script.specs.declared.table.Directive.TheVariants.{CreateRegion, CreatePartition, IdentRegion, IdentPartition, DeleteRegion, DeletePartition, RegionInformation, GetBuffer, GetSegment, ReturnSegment, SegmentSize, ReturnBuffer, ResizeSegment, Tick}

abbrev pub row_by : Directive → Row
row_by CreateRegion = create_region_row
row_by CreatePartition = create_partition_row
row_by IdentRegion = ident_region_row
row_by IdentPartition = ident_partition_row
row_by DeleteRegion = delete_region_row
row_by DeletePartition = delete_partition_row
row_by RegionInformation = information_row
row_by GetBuffer = get_buffer_row
row_by GetSegment = get_segment_row
row_by ReturnSegment = return_segment_row
row_by SegmentSize = segment_size_row
row_by ReturnBuffer = return_buffer_row
row_by ResizeSegment = resize_segment_row
row_by Tick = tick_row

abbrev pub key_shown : CodeKey → Key
key_shown k = record { text = k.text.now; most = k.most }

abbrev pub shown : CodeRow → Row
shown r = record { line = r.line.now; keys = map key_shown r.keys.now; six_values = r.six_values; call = (row_by r.directive).call }
