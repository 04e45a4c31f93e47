-- All that a worked example over the receipts computes with; an example unfolds this name. Assumes nothing.
use Rattle.trace.specs.Loans.{enter, amend, in_pages, pages_at, loan_pages, most, sum}
use Rattle.trace.specs.Pages.{runs, drawn, most_pages_at, lowest_run}
use Rattle.trace.specs.Halves.{below, from, drawn_block}
use Rattle.trace.specs.Kinds.{reading_of}
use Rattle.trace.specs.Receipts.{buffers_from, strike, all_later, without, wait_of, all_noticed}
use Rattle.trace.specs.Queue.{insert_by, insert_all, waits_in, stands_before, due_in}
use Rattle.trace.specs.Replies.{decided, first_slot, any_slot, grants_in, grants_from, by_receipts, note}
use Rattle.trace.specs.Trace.{after}

unfoldable pub receipts : Unit {0}
unfolding reading_of enter amend in_pages loan_pages runs most sum buffers_from strike all_later without wait_of all_noticed note insert_by insert_all waits_in stands_before due_in decided first_slot any_slot pages_at most_pages_at lowest_run grants_in grants_from by_receipts after drawn below from drawn_block
receipts = tt
