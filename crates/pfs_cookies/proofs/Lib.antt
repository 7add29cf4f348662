mod KeySets
