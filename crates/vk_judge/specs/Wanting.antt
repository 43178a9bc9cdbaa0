-- Want of memory, which no contract of the library tells from giving up.

-- that memory was wanting. It stays closed, so that no proof shows it but from a clause that says
-- so, or by the one lemma below: and that is given to the functions alone which take memory
pub MemoryWasWanting : Type 0
MemoryWasWanting = Unit {0}

-- where it was taken, it may have been wanting
pub memory_was_wanting : MemoryWasWanting
unfolding MemoryWasWanting
memory_was_wanting = tt
