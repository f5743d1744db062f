use Rattle.boundaries.proofs.store.Store.release_removed.Goals as goal

pub release-requires : goal.release-requires
release-requires c = record {
  live = rw c.as_slice.ensures.value c.requires.live;
  distinct = rw c.as_slice.ensures.value c.requires.distinct;
}

pub returns-clause-others : goal.returns-clause-others
returns-clause-others c = rw c.as_slice.ensures.value at c.release.ensures.others

pub returns-clause-counted : goal.returns-clause-counted
returns-clause-counted c = rw c.as_slice.ensures.value at c.release.ensures.counted
