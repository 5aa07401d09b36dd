mod MirrorLemmas
