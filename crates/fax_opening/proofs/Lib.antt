mod Restoring
