use Rattle.sync_io.proofs.varint.+longer_number_of.Given as goal

abbrev pub decreases-longer_number_of : goal.decreases-longer_number_of
decreases-longer_number_of l = l.room
