-- All that a worked example computes with, in three parts: maps of both kinds and checks of lists; the queue, the chain and the sound record; serving and
-- the directives. An example unfolds these names. Assumes nothing.
use Rattle.arith.specs.Power.{level_from}
use Rattle.arith.specs.Layout.{largest, most_pages, page_count}
use Rattle.manager.specs.Record.{slot_of, generation_of, id_of, object_of}
use Rattle.manager.specs.Result.{checked, tasks_told}
use Rattle.manager.specs.Lists.{every, any, index_of, pairwise, adjacent}
use Rattle.manager.specs.Map.{draw, decode, tiled_from, tiled, sound_map, free_sizes, held_sizes, largest_of, sum_of, total}
use Rattle.manager.specs.Kind.{held_from}
use Rattle.manager.specs.Paged.{apart, free+, lead, rest, place_from, occupy_from, reach_from, change_from}
use Rattle.manager.specs.Halves.{low_of, high_of, is_whole, is_free, halved, smallest, lowest_free, place_block, carve, occupy_block, join, release_block}
use Rattle.manager.specs.Region.{region_areas, partition_areas}
use Rattle.manager.specs.Queue.{goes_before, push, insert, remove_at, enqueue, dequeue, staying, leaving, after_tick}
use Rattle.manager.specs.Serve.{serve_up_to, serve, serve_slot, serve_slots, serve_all}
use Rattle.manager.specs.Partition.{follow, linked, link_all, after_get, after_return}
use Rattle.manager.specs.Sound.{live_region, live_partition, sound_region, sound_partition, sound_names, sound_waiter, sound_place, sound_queue, sound}
use Rattle.manager.specs.Regions.{create_region, delete_region, ident_region, get_segment, return_segment, segment_size, resize_segment, region_information, tick}
use Rattle.manager.specs.Partitions.{create_partition, ident_partition, delete_partition, get_buffer, return_buffer}
use Rattle.manager.specs.Access.{read_segment, write_segment}
use Rattle.manager.specs.Perform.{perform}

unfoldable pub blocks : Unit {0}
unfolding level_from low_of high_of is_whole is_free halved smallest lowest_free place_block carve occupy_block join release_block
blocks = tt

unfoldable pub maps : Unit {0}
unfolding blocks largest most_pages page_count checked tasks_told every any index_of pairwise adjacent draw decode tiled_from tiled sound_map apart free_sizes held_sizes largest_of sum_of total free+ lead rest place_from occupy_from held_from reach_from change_from
maps = tt

unfoldable pub records : Unit {0}
unfolding slot_of generation_of id_of object_of region_areas partition_areas goes_before push insert remove_at enqueue dequeue staying leaving after_tick follow linked link_all after_get after_return live_region live_partition sound_region sound_partition sound_names sound_waiter sound_place sound_queue sound
records = tt

unfoldable pub directives : Unit {0}
unfolding serve_up_to serve serve_slot serve_slots serve_all create_region ident_region delete_region get_segment return_segment segment_size resize_segment region_information tick create_partition ident_partition delete_partition get_buffer return_buffer read_segment write_segment perform
directives = tt
